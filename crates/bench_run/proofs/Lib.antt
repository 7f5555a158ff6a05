mod Counting
mod Passes
mod Leading
mod Running
mod Made

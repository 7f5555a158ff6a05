pub mod Numbers
pub mod WordLemmas
pub mod Files
pub mod Listed
pub mod Outsides
pub mod ItemLines

pub mod SomeTally
pub mod ThreeFiles
pub mod RunWays
pub mod FeedWays
pub mod LiveRuns
pub mod Endings
pub mod Headlines

pub mod Dropping
pub mod WalkLines
pub mod SiteTexts
pub mod LastSites

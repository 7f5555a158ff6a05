pub mod WalkText
pub mod SiteText

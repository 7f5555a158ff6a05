pub mod PlanLine
pub mod Plan
pub mod SiteBytes

pub mod PlanLines
pub mod Plans

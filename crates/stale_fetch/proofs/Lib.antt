pub mod ByteSets
pub mod LogFields
pub mod Rows
pub mod WindowPasts

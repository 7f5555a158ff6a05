pub mod Rising
pub mod Named
pub mod NamesGiven

pub mod Adding
pub mod Standing

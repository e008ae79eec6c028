pub mod Named
pub mod Left
pub mod Numbers

pub mod Weighed
pub mod Named
pub mod Chosen
pub mod Laid
pub mod Next

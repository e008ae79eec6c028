pub mod Counting
pub mod Weighed
pub mod Named
pub mod Laid
pub mod Next

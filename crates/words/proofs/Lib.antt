pub mod Placed
pub mod Put
pub mod Front
pub mod Behind
pub mod Laid
pub mod Written
pub mod Sum
pub mod Lent

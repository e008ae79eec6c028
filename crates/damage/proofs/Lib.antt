pub mod Weights
pub mod Altered
pub mod CheckWords
pub mod Checked
pub mod Cut
pub mod Prefixes
pub mod Damage
pub mod PatchDamage

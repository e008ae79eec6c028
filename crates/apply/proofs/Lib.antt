pub mod Sizes
pub mod Runs
pub mod Gaps
pub mod Copied
pub mod Totals
pub mod Named
pub mod Filled
pub mod Verdict

pub mod CutPlans
pub mod Space

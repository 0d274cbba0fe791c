pub mod Pairs
pub mod NetView
pub mod Merging
pub mod MergingLaw

pub mod Lists
pub mod SameNames
pub mod Padded
pub mod Fronts
pub mod Widths
pub mod Sizes
pub mod Circulation
pub mod AsWritten
pub mod Pairs
pub mod Columns
pub mod Flows
pub mod SumsBounded
pub mod Windowed
pub mod Spelling
pub mod Deciding
pub mod Complementary
pub mod Squeezed
pub mod OneSqueezed
pub mod Near
pub mod Sums
pub mod Weighed
pub mod Narrowed
pub mod WeightedBounded
mod Ones
mod WorkedWeights

-- What lies below a path: the theorems, and the laws that they rest on.
pub mod Below
pub mod BelowLaws
pub mod NeighbourLaws

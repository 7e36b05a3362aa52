-- The laws that the proofs of `wire` share.
pub mod Laws

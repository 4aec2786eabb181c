-- For runs that may be unfinished, and in the paper's own wording
pub mod Promise
pub mod ContextMulticast

pub mod Drawn
pub mod Going
pub mod Inside
pub mod Listed
pub mod Noted
pub mod Parting
pub mod Probing

pub mod Numbers
pub mod Names
pub mod Contents
pub mod ReplayEnd
pub mod Progress

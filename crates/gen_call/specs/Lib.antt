pub mod Numbers
pub mod Runs
pub mod WorkerPlan
pub mod Ending
pub mod Progress

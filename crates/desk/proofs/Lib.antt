pub mod RefusalKinds
pub mod Meanings
pub mod Hinting
pub mod Budgets
pub mod Succeeds
pub mod Showing
pub mod Tellings
pub mod MadeTellings

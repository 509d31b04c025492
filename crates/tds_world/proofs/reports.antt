-- What the reports show.
pub mod Few
pub mod Reports
pub mod NoFault
pub mod Asks
pub mod OwnShown
pub mod FirstRuns
pub mod Leased
pub mod NoMore
pub mod Tickets
pub mod Lends
pub mod Answered
pub mod Rest
pub mod Alone

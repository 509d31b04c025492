-- A play stands for a world: it opens, finds and changes a connection where its world does.
pub mod PlayerOpens
pub mod PlayerActs
pub mod PlayerFinds

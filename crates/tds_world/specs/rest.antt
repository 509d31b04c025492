-- A connection that is whole never hangs.
pub mod Rest
pub mod RestShown

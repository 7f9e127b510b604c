pub mod Position
pub mod Rest
pub mod Laws
pub mod Table
pub mod RestTable

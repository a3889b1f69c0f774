pub mod Telegram
pub mod Fields
pub mod Worded

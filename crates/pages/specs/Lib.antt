-- What a lent buffer holds after a text is written into it, and a page and its text after bytes are put into it.
pub mod Filled
pub mod Text
pub mod Written

-- Lemmas on the text of a page that bytes are put into, on bytes put from an offset on, and on a text copied into a
-- buffer.
pub mod Texts
pub mod Pages

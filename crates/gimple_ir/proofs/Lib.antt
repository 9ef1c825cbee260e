pub mod CountLaws
pub mod SpellableLaws

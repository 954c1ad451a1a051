pub mod RefusalLaws
pub mod Rising
pub mod CallerLaws
pub mod ActionLaws
pub mod RegisterFreeLaws

pub mod Items
pub mod Mapped
pub mod MutatorLists
pub mod Phases
pub mod Plans
pub mod RootLists
pub mod Views

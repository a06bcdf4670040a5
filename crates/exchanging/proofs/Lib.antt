pub mod ExchangeLaws
pub mod AlikeLaws
pub mod ExchangedInLaws
pub mod ExchangedMemory

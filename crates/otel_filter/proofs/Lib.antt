pub mod ExportsInTurn

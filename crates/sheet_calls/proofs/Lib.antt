-- What the refusals of too little room leave.
pub mod Lending

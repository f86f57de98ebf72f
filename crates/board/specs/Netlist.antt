-- A netlist on its board, as the rules speak of it: no file. The nets are two functions of the net number.
use Rattle.std.specs.Prelude.{ℕ}

pub record Netlist : Type 0 where
  -- FPGAs, numbered from 0
  pub f : ℕ
  -- crossbars, numbered from 0
  pub c : ℕ
  -- wires in use between an FPGA and each crossbar, by the FPGA: what document 01's rules call m
  pub width : ℕ → ℕ
  -- nets, numbered from 0
  pub n : ℕ
  -- the two FPGAs of a net
  pub first : ℕ → ℕ
  pub second : ℕ → ℕ

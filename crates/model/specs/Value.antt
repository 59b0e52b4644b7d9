-- Values by kind (document 01, "Elements").
use Rattle.std.specs.Prelude.{Bool, false, ◌&&◌, List, ℕ, zero, suc, length, eqb, leb}
use Rattle.model.specs.Lists.{all, is_byte}

-- what is kept with an element's path
pub record Content : Type 0 where
  pub kind : ℕ
  pub value : List ℕ

unfoldable pub is_printable : ℕ → Bool
is_printable x = leb 32 x && leb x 126

-- kind 0 group: no bytes; 1 measure: 4 bytes; 2 text: 1 to 16 bytes, each 32 to 126; there is no other kind
unfoldable pub allowed : ℕ → List ℕ → Bool
allowed zero v = eqb (length v) 0
allowed (suc zero) v = eqb (length v) 4 && all is_byte v
allowed (suc (suc zero)) v = leb 1 (length v) && leb (length v) 16 && all is_printable v
allowed (suc (suc (suc k))) v = false

-- what a partition may hold
unfoldable pub storable : Content → Bool
storable c = allowed c.kind c.value

-- the kind and value that a call may bring (row 5)
unfoldable pub bringable : Content → Bool
bringable c = allowed c.kind c.value

-- Names of processes and of objects (this profile).
use Rattle.std.specs.Prelude.{ℕ, Bool, List, ◌≡◌, ◌-◌, ◌≤◌, ◌++◌, IsTrue, length, take, replicate, ◌&&◌, nat_le}
use Rattle.std.specs.List.{list_all}
use Rattle.apex_types.specs.declared.limits.TheConstants.{MOST_NAME}

-- a byte that a name may hold: 0x21 to 0x7E
abbrev pub is_visible : ℕ → Bool
is_visible byte = nat_le 33 byte && nat_le byte 126

-- 1 to `MOST_NAME` visible bytes
abbrev pub is_name : List ℕ → Bool
is_name text = nat_le 1 (length text) && nat_le (length text) MOST_NAME && list_all is_visible text

-- the bytes that hold a name: the name's own, and zeros behind them
abbrev pub padded : List ℕ → List ℕ
padded name = name ++ replicate (MOST_NAME - length name) 0

-- the first n bytes are a name, and zeros follow it
abbrev pub IsNameIn : ℕ → List ℕ → Type 0
IsNameIn n bytes = record {
  name : IsTrue (is_name (take n bytes));
  within : n ≤ length bytes;
  zeros : bytes ≡ padded (take n bytes);
}

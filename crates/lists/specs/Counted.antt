-- Of a list at most the first 2^28 places count. Assumes nothing.
use Rattle.std.specs.Prelude.{◌^◌, List, ◌++◌, take, drop}

abbrev pub counted : {X : Type 0} → List X → List X
counted xs = take (2 ^ 28) xs

abbrev pub uncounted : {X : Type 0} → List X → List X
uncounted xs = drop (2 ^ 28) xs

-- a call that works on what counts of a list, and leaves the rest as it is
abbrev pub on_counted : {X R : Type 0} → (List X → R × List X) → List X → R × List X
on_counted f xs = ((f (counted xs)).0, (f (counted xs)).1 ++ uncounted xs)

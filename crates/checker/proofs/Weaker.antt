-- What is known of a point may be weakened. Assumes nothing.
use Rattle.std.proofs.Common.{ℕ, List}
use Rattle.procedure.specs.Procedure.{Region as Set, Point}
use Rattle.checker.specs.declared.Kind.{Kind}
use Rattle.checker.specs.declared.Kind.TheVariants.{Start, Path, Inclusion}
use Rattle.checker.specs.declared.End.{End}
use Rattle.checker.specs.declared.End.TheVariants.{Safe, Run, Undecided, Spent, Short}
use Rattle.checker.specs.declared.Asked.{Asked}
use Rattle.checker.specs.Lists.{Lists}
use Rattle.checker.specs.Points.{sheet_in}
use Rattle.checker.proofs.Standing.{Known, Asks, Stands, Ends}

module _ (l : List ℕ) (C D : Known l) (weaken : (p : Point (sheet_in l)) → C p → D p) where
  weaker_asks : (kind : Kind) (a : Asked) (x : Lists) (n : ℕ) (R : Set (sheet_in l)) → Asks l C kind a x n R → Asks l D kind a x n R
  weaker_asks Start a x n R h = (weaken _ h.0, h.1)
  weaker_asks Path a x n R h = (weaken _ h.0, h.1)
  weaker_asks (Inclusion p) a x n R h =
      (record { set = h.0.set; is = h.0.is; formula = h.0.formula; comes = weaken _ h.0.comes }, h.1)

  pub weaker_stands : (K Q : ℕ) (a : Asked) (x : Lists) (n : ℕ) → Stands l K Q C a x n → Stands l K Q D a x n
  weaker_stands K Q a x n st =
      record { sound = st.sound; region = st.region; is = st.is; asks = weaker_asks a.kind a x n st.region st.asks }

  pub weaker_ends : (K Q : ℕ) (e : End) (n : ℕ) (xs : List ℕ) → Ends l K Q C e n xs → Ends l K Q D e n xs
  weaker_ends K Q Safe n xs h = weaken _ h
  weaker_ends K Q (Run last v) n xs h =
      record {
        legal = h.legal;
        whole = h.whole;
        bits = h.bits;
        tells = h.tells;
        starts = h.starts;
        follows = h.follows;
        bad = h.bad;
        comes = weaken _ h.comes;
      }
  weaker_ends K Q Undecided n xs h = weaken _ h
  weaker_ends K Q Spent n xs h = weaken _ h
  weaker_ends K Q (Short which) n xs h = h

use Rattle.std.proofs.Common.{◌≡◌, ◌+◌, ◌-◌, ◌++◌, length, take, replicate, subst, arith}
use Rattle.std.proofs.lemmas.Result.{err_from_is_err_and}
use Rattle.sheet.specs.Seen.{whole_seen}
use Rattle.sheet.proofs.ReadStored.{read_refused, read_short, read_stored}
use Rattle.sheet.proofs.Legality.{well_formed_legal}
use Rattle.sheet.proofs.ReadFirst.{judged}
use Rattle.sheet.proofs.ReadReasons.{reasoned}
use Rattle.sheet.proofs.Trips.{accepts, read_again, read_formed}
use Rattle.sheet.proofs.read.read.Goals as goal

pub returns-in_err-head : goal.returns-in_err-head
returns-in_err-head c =
    let p = err_from_is_err_and c.from_residual.result c.from_residual.ensures.1 in
    let whole = read_refused c.args.text.now c.args.list.now c.in_err-head.field-0.0 c.in_err-head.ensures in
    record {
      reads_exactly_the_format = rw (p.1, p.2) whole;
      names_the_first_wrong_line = rw (p.1, p.2) (judged c.args.text.now c.args.list.now c.args.list.now _ whole);
      gives_the_reason = rw (p.1, p.2) (reasoned c.args.text.now c.args.list.now c.args.list.now _ whole);
      accepts_legal_sheets = accepts;
      leaves_a_legal_list = rw p.1 tt;
      is_written_back = rw p.1 tt;
    }

pub returns-then-places-count : goal.returns-then-places-count
returns-then-places-count c =
    let whole = read_short c.args.text.now c.args.list.now (whole_seen c.read_all.new.pairs.items c.in_ok-head.head) c.counted_len-places.result (4 + c.len-count.result) c.in_ok-head.ensures (omega arith) c.counted_len-places.ensures (omega arith) in
    record {
      reads_exactly_the_format = rw c.refuse.ensures whole;
      names_the_first_wrong_line = rw c.refuse.ensures (judged c.args.text.now c.args.list.now c.args.list.now _ whole);
      gives_the_reason = rw c.refuse.ensures (reasoned c.args.text.now c.args.list.now c.args.list.now _ whole);
      accepts_legal_sheets = accepts;
      leaves_a_legal_list = tt;
      is_written_back = tt;
    }

pub returns : goal.returns
returns c =
    let made =
    subst (λ pairs. c.store.new.list ≡ whole_seen pairs c.in_ok-head.head ++ replicate (length (take (c.counted_len-places.result - 0) c.args.list.now) - length (whole_seen pairs c.in_ok-head.head)) 0)
    c.as_slice.ensures.value c.store.ensures in
    let whole = read_stored c.args.text.now c.args.list.now (whole_seen c.read_all.new.pairs.items c.in_ok-head.head) c.store.new.list c.counted_len-places.result (4 + c.len-count.result) c.in_ok-head.ensures (omega arith) c.counted_len-places.ensures (omega arith) made in
    record {
      reads_exactly_the_format = whole;
      names_the_first_wrong_line = judged c.args.text.now c.args.list.now _ _ whole;
      gives_the_reason = reasoned c.args.text.now c.args.list.now _ _ whole;
      accepts_legal_sheets = accepts;
      leaves_a_legal_list =
          (well_formed_legal _ (read_formed c.args.text.now c.args.list.now _ _ whole).formed, omega (arith, c.counted_len-places.ensures));
      is_written_back = read_again c.args.text.now c.args.list.now _ _ whole;
    }

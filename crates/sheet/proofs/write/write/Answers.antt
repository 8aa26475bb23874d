use Rattle.std.proofs.Common.{◌≡◌, ℕ, List, Err, Result, sym, ap, ◌∙◌, subst}
use Rattle.sheet.specs.declared.fault.Fault.{Fault}
use Rattle.sheet.specs.Sheets.{input_count, latch_count, gate_count}
use Rattle.sheet.specs.Render.{well_formed, write_text}
use Rattle.sheet.proofs.Legality.{fits_parts}
use Rattle.sheet.proofs.Written.{writes_nothing, writes_whole, written_back, refused_unread, short_room}
use Rattle.sheet.proofs.write.write.Goals as goal

pub returns-then-not-is_well_formed : goal.returns-then-not-is_well_formed
returns-then-not-is_well_formed c =
    let l = c.args.list.now in
    let old = c.args.text.now in
    let not = writes_nothing l old (sym (c.if-not-is_well_formed.ensures ∙ ap well_formed c.counted-list.ensures.value)) in
    let value = subst (λ (e : Fault). ◌≡◌ {A = Result ℕ Fault × List ℕ} (Err e, old) (write_text l old)) (sym c.refuse.ensures) not in
    record {
      writes_exactly_the_text = value;
      is_read_back = tt;
      refuses_what_no_text_reads_to = refused_unread l old old _ value;
      wants_room = short_room l old old _ value;
    }

pub text_of-requires : goal.text_of-requires
text_of-requires c =
    let l = c.counted-list.result.now in
    let f = fits_parts (input_count l) (latch_count l) (gate_count l) l (sym c.if-not-is_well_formed.ensures) in
    record { latches = f.few_latches; gates = f.few_gates; whole = f.whole }

pub returns : goal.returns
returns c =
    let l = c.args.list.now in
    let old = c.args.text.now in
    let value = writes_whole l old c.counted_len-len.result c.counted-list.result.now c.as_slice.result.now c.place.result c.place.new.text c.counted-list.ensures.value c.if-not-is_well_formed.ensures (c.as_slice.ensures.value ∙ c.text_of.ensures) c.counted_len-len.ensures c.place.ensures in
    record {
      writes_exactly_the_text = value;
      is_read_back = written_back l old _ _ value;
      refuses_what_no_text_reads_to = refused_unread l old _ _ value;
      wants_room = short_room l old _ _ value;
    }

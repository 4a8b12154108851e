use mathlib.Core.Path.{◌∙◌}
use lib.ListN.{length}
use Rattle.std.proofs.Common.{arith, rules, ◌≤◌}
use Rattle.text.proofs.AppendLaws.{puts_count, left_front}
use Rattle.lines.specs.ListingRows.{listing_read}
use Rattle.lines.proofs.ListAnswers.{bad_value, bad_text, few_bytes, short_value, short_text, enough_measured, enough_surely, long_value, long_text}
use Rattle.lines.proofs.list.Goals as goal
use Rattle.lines.proofs.list.Goals.{else-text-circuit-via-then-text-circuit+else-text-listing_length, else-text-circuit-via-else-text-circuit}

pub returns-in_default-clause-value : goal.returns-in_default-clause-value
returns-in_default-clause-value c = bad_value _ _ c.in_default.ensures.circuit

pub returns-in_default-clause-text_after : goal.returns-in_default-clause-text_after
returns-in_default-clause-text_after c = bad_text _ _ c.in_default.ensures.circuit

pub returns-then-text-listing_length-clause-value : goal.returns-then-text-listing_length-clause-value
returns-then-text-listing_length-clause-value c =
    short_value _ _ _ _ c.in-Some.ensures.circuit c.in-Some.ensures.header _ c.listing_length.ensures c.if-text-listing_length.true

pub returns-then-text-listing_length-clause-text_after : goal.returns-then-text-listing_length-clause-text_after
returns-then-text-listing_length-clause-text_after c =
    short_text _ _ _ _ c.in-Some.ensures.circuit c.in-Some.ensures.header _ c.listing_length.ensures c.if-text-listing_length.true

pub returns-clause-value : goal.returns-clause-value
returns-clause-value c =
    let whole = c.in-Some.ensures.circuit in
    let header = c.in-Some.ensures.header in
    let few = few_bytes _ c.args.text.now _ _ whole header in
    let long : length (listing_read c.in-Some.header c.in-Some.gates.now) ≤ length c.args.text.now = elim c.else-text-circuit.branch [
      | else-text-circuit-via-then-text-circuit+else-text-listing_length w ↦
          enough_measured _ _ _ _ whole header _ w.listing_length.ensures w.if-text-listing_length.false
      | else-text-circuit-via-else-text-circuit w ↦ enough_surely _ _ _ _ whole header c.type_inv.circuit w.if-text-circuit.false
    ] in
    long_value _ _ _ _ whole header long _ (c.length.ensures ∙ puts_count _ c.put_listing.ensures c.new-writer.ensures (omega arith))

pub returns-clause-text_after : goal.returns-clause-text_after
returns-clause-text_after c =
    let whole = c.in-Some.ensures.circuit in
    let header = c.in-Some.ensures.header in
    let long : length (listing_read c.in-Some.header c.in-Some.gates.now) ≤ length c.args.text.now = elim c.else-text-circuit.branch [
      | else-text-circuit-via-then-text-circuit+else-text-listing_length w ↦
          enough_measured _ _ _ _ whole header _ w.listing_length.ensures w.if-text-listing_length.false
      | else-text-circuit-via-else-text-circuit w ↦ enough_surely _ _ _ _ whole header c.type_inv.circuit w.if-text-circuit.false
    ] in
    long_text _ _ _ _ whole header long _ (left_front _ c.put_listing.ensures c.new-writer.ensures long (search rules) (search rules))

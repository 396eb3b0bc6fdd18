-- What one text after another leaves of the area that they are written into.
use Rattle.std.proofs.Common.{◌≡◌, ℕ, ◌+◌, ◌^◌, ◌<◌, ◌≤◌, List, ◌++◌, length, take, drop, decimal, sym, ap, ◌∙◌, append_assoc, add_assoc, zero-add, arith, length-append}
use Rattle.std.proofs.lemmas.Fmt.{length-decimal-le}
use Rattle.std.proofs.lemmas.List.{drop-drop, drop_at, take_at, length-take-le}
use Rattle.report.specs.declared.text.Text.{Text}
use Rattle.report.specs.Lines.{overwritten, Wrote}
use Rattle.report.specs.Texts.{Extends}

-- a text and then another right after it leave the area as the two do that are written as one
overwritten_more : (area : List ℕ) (at : ℕ) (s t : List ℕ) → at ≤ length area → overwritten (overwritten area at s) (at + length s) t ≡ overwritten area at (s ++ t)
overwritten_more area at s t within =
    let end : ℕ = at + length s in
    let front : length (take at area ++ s) ≡ end = length-append (take at area) s ∙ ap (λ n. n + length s) (length-take-le at area within) in
    let before = take_at (take at area ++ s) (drop end area) end front in
    let rest = drop_at (take at area ++ s) (drop end area) end front in
    let after = sym (drop-drop (length t) end (overwritten area at s)) ∙ ap (λ xs. drop (length t) xs) rest ∙ drop-drop (length t) end area in
    rw (before, after) (simp (append_assoc, length-append, add_assoc))

-- more bytes right after some are both as one
pub extends_more : {old mid new : Text} {s t : List ℕ} → old.len ≤ length old.area.now → Extends old s mid → Extends mid t new → Extends old (s ++ t) new
extends_more {old} {mid} {new} {s} {t} within p q =
    let joined = overwritten_more old.area.now old.len s t within in
    record {
      same_area = q.same_area ∙ p.same_area;
      long = q.long ∙ p.long;
      placed = record { area = cc; ends = omega (arith, length-append s t, p.placed.ends, q.placed.ends) };
    }

-- a text from the start on is followed by what it leaves of the area
pub wrote_text : {old new : Text} {bytes : List ℕ} → old.len ≡ 0 → length bytes ≤ length old.area.now → Extends old bytes new → Wrote bytes old.area.now new.area.now new.len
wrote_text {old} {new} {bytes} none room p =
    record {
      long = omega (arith, p.placed.ends);
      fits = omega (arith, p.placed.ends);
      area = p.placed.area ∙ (rw none (simp zero-add));
    }

-- a number has few digits
pub few_digits : (n : ℕ) → n < 2 ^ 64 → length (decimal n) ≤ 20
few_digits n small = length-decimal-le 20 n (omega arith) (omega arith) small

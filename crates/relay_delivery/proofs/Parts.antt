-- A list from an index on, and what is written back there.
use Rattle.std.proofs.Common.{◌≡◌, ℕ, ◌+◌, ◌-◌, ◌≤◌, List, length, take, drop, sym, ◌∙◌, ap, arith}
use Rattle.std.proofs.Common.{length-drop}
use Rattle.std.proofs.lemmas.List.{take_all, drop-drop}
use Rattle.std.proofs.lemmas.Slice.{between_to_end, between-put_mid}
use borrow.Rule.Slice.PartMut.{put_mid, same_len_mid}

pub part_is : (xs : List ℕ) (a : ℕ) → take (length xs - a) (drop a xs) ≡ drop a xs
part_is xs a = take_all (length xs - a) (drop a xs) (omega (arith, length-drop a xs))

module _ (xs ys : List ℕ) (a : ℕ) (within : a ≤ length xs) (same : length ys
    ≡ length (take (length xs - a) (drop a xs))) where
  pub put_length : length (put_mid a (length xs - a) xs ys) ≡ length xs
  put_length = same_len_mid a (length xs - a) xs ys same

  part_length : length ys ≡ length xs - a
  part_length = same ∙ ap length (part_is xs a) ∙ length-drop a xs

  part_back : drop a (put_mid a (length xs - a) xs ys) ≡ ys
  part_back =
      let put = put_mid a (length xs - a) xs ys in
      let short : length put ≤ length xs = omega (arith, put_length) in
      sym (between_to_end put a (length xs) short)
      ∙ between-put_mid a (length xs - a) xs ys (length xs) within part_length

  -- what stands from a later index on
  pub put_from : (n : ℕ) → drop (a + n) (put_mid a (length xs - a) xs ys) ≡ drop n ys
  put_from n = sym (drop-drop n a (put_mid a (length xs - a) xs ys)) ∙ ap (drop n) part_back

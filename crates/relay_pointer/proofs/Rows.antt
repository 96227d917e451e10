-- Texts and the paths that they spell, by computation.
use Rattle.std.proofs.Common.{◌≡◌, [], ◌∷◌, Some, None, pos, codes, refl}
use Rattle.relay_tree.specs.Document.{list, object, whole, items_of, no_members, member}
use Rattle.relay_pointer.specs.Path.{at}
use Rattle.relay_pointer.specs.Index.{index_of}
use Rattle.relay_pointer.specs.Spelling.{path_of_text}

slash_and_tilde : path_of_text (codes "/a~1b/~01") ≡ Some (codes "a/b" ∷ codes "~1" ∷ [])
unfolding path_of_text
slash_and_tilde = refl

root : path_of_text [] ≡ Some []
unfolding path_of_text
root = refl

empty_token : path_of_text (codes "/") ≡ Some ([] ∷ [])
unfolding path_of_text
empty_token = refl

two_is_no_escape : path_of_text (codes "/~2") ≡ None
unfolding path_of_text
two_is_no_escape = refl

slash_is_missing : path_of_text (codes "a") ≡ None
unfolding path_of_text
slash_is_missing = refl

tilde_stands_last : path_of_text (codes "/x~") ≡ None
unfolding path_of_text
tilde_stands_last = refl

tilde_before_slash : path_of_text (codes "/~/0") ≡ None
unfolding path_of_text
tilde_before_slash = refl

-- in `{"a":[1,2]}`
member_and_element : at
    (object (member (codes "a") (list (items_of (whole (pos 1) ∷ whole (pos 2) ∷ []))) no_members))
    (codes "a" ∷ codes "1" ∷ []) ≡ Some (whole (pos 2))
unfolding index_of
member_and_element = refl

leading_zero : at
    (object (member (codes "a") (list (items_of (whole (pos 1) ∷ whole (pos 2) ∷ []))) no_members))
    (codes "a" ∷ codes "01" ∷ []) ≡ None
unfolding index_of
leading_zero = refl

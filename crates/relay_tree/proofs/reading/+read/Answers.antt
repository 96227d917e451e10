use Rattle.std.proofs.Common.{◌≡◌, ◌-◌, ◌<◌, [], ◌∷◌, ◌++◌, length, Some, None, Err, option_map}
use Rattle.std.proofs.Common.{string_bytes, refl, sym, ap, ap₂, ◌∙◌, arith, rules}
use Rattle.json.specs.Json.{parse_map, items, members, value}
use Rattle.json.specs.Reads.{token_of}
use Rattle.json.proofs.Grammar.{value_is, value-begin_array, value-begin_object, read_key-shorter}
use Rattle.serde_json.specs.Data as json_data
use Rattle.serde_json.specs.Data.{put}
use Rattle.serde_json.specs.Read.{of_json, of_members, converted}
use Rattle.relay_tree.specs.Document.{list, object, items_of, whole}
use Rattle.relay_tree.specs.Seen.{members_of}
use Rattle.relay_tree.specs.Reading.{extended, members_read}
use Rattle.relay_tree.proofs.Conversions.{map_twice, converted_array, converted_object, item_turn}
use Rattle.relay_tree.proofs.Conversions.{item_fault, items_over, member_turn, member_fault}
use Rattle.relay_tree.proofs.Conversions.{key_fault, members_over}
use Rattle.relay_tree.proofs.ReadLemmas.{same_fault, none_left, number_read, no_number_read, before}
use Rattle.relay_tree.proofs.ReadLemmas.{trees_of-last, one_more, items_tree-before, put_read}
use Rattle.relay_tree.proofs.reading.+read.Goals as goal

-- One value.

pub read_tree-returns-in_default-clause-not_json : goal.read_tree-returns-in_default-clause-not_json
read_tree-returns-in_default-clause-not_json t c refused =
    let empty : c.args.reader.now ≡ [] =
    grind (arith, none_left c.next.result c.in_default.not-Some) in
    ap (converted of_json) (ap (value c.args.depth) empty ∙ value_is c.args.depth [])

pub read_tree-returns-in-Null-clause-ok : goal.read_tree-returns-in-Null-clause-ok
read_tree-returns-in-Null-clause-ok t c =
    let is = c.in-Some.ensures.value ∙ ap (λ k. token_of k ∷ c.next.new.self) c.in-Null.is in (
      json_data.null,
      ap (converted of_json) (ap (value c.args.depth) is ∙ value_is c.args.depth _),
      ap Some (sym c.from.ensures),
    )

pub read_tree-returns-in-Bool-clause-ok : goal.read_tree-returns-in-Bool-clause-ok
read_tree-returns-in-Bool-clause-ok t c =
    let is = c.in-Some.ensures.value ∙ ap (λ k. token_of k ∷ c.next.new.self) c.in-Bool.is in (
      json_data.boolean c.in-Bool.truth,
      ap (converted of_json) (ap (value c.args.depth) is ∙ value_is c.args.depth _),
      ap Some (sym c.from-in-Bool.ensures),
    )

pub read_tree-returns-in-Some-Some-clause-ok : goal.read_tree-returns-in-Some-Some-clause-ok
read_tree-returns-in-Some-Some-clause-ok t c =
    let is = c.in-Some.ensures.value ∙ ap (λ k. token_of k ∷ c.next.new.self) c.in-Number.is in
    let number =
    number_read c.in-Number.text.now c.next.new.self (Some c.in-Some-Some.whole)
    (sym (c.in-Some-Some.is ∙ ap Some c.in-Some-Some.field-0-is) ∙ c.whole_number.ensures) in
    let seen : Some (whole c.in-Some-Some.whole) ≡ Some c.from-in-Some-Some.result =
    search rules in (
      number.0,
      ap (converted of_json) (ap (value c.args.depth) is ∙ value_is c.args.depth _)
          ∙ number.1,
      number.2 ∙ seen,
    )

pub read_tree-returns-in-Some-None-clause-ok : goal.read_tree-returns-in-Some-None-clause-ok
read_tree-returns-in-Some-None-clause-ok t c =
    let is = c.in-Some.ensures.value ∙ ap (λ k. token_of k ∷ c.next.new.self) c.in-Number.is in
    let number =
    number_read c.in-Number.text.now c.next.new.self None
    (sym (c.in-Some-None.is ∙ ap Some c.in-Some-None.field-0-is) ∙ c.whole_number.ensures) in (
      number.0,
      ap (converted of_json) (ap (value c.args.depth) is ∙ value_is c.args.depth _)
          ∙ number.1,
      number.2,
    )

pub read_tree-returns-in-None-clause-not_json : goal.read_tree-returns-in-None-clause-not_json
read_tree-returns-in-None-clause-not_json t c refused =
    let is = c.in-Some.ensures.value ∙ ap (λ k. token_of k ∷ c.next.new.self) c.in-Number.is in
    ap (converted of_json) (ap (value c.args.depth) is ∙ value_is c.args.depth _)
    ∙ rw (no_number_read c.in-Number.text.now (sym c.in-None.is ∙ c.whole_number.ensures))

pub read_tree-returns-in-Ok-clause-ok : goal.read_tree-returns-in-Ok-clause-ok
read_tree-returns-in-Ok-clause-ok t c =
    let is = c.in-Some.ensures.value ∙ ap (λ k. token_of k ∷ c.next.new.self) c.in-String.is in
    let copied : string_bytes c.in-Ok.text ≡ c.in-String.text.now = search rules in (
      json_data.string c.in-String.text.now,
      ap (converted of_json) (ap (value c.args.depth) is ∙ value_is c.args.depth _),
      rw (c.from-in-Ok.ensures, copied),
    )

pub read_tree-returns-then-depth-eq0-clause-not_json :
    goal.read_tree-returns-then-depth-eq0-clause-not_json
unfolding value
read_tree-returns-then-depth-eq0-clause-not_json t c refused =
    let is = c.in-Some.ensures.value ∙ ap (λ k. token_of k ∷ c.next.new.self) c.in-BeginArray.is in
    let none : c.args.depth ≡ 0 = omega arith in
    ap (converted of_json) (ap₂ value none is)

pub read_tree-returns-then-depth-eq0-2-clause-not_json :
    goal.read_tree-returns-then-depth-eq0-2-clause-not_json
unfolding value
read_tree-returns-then-depth-eq0-2-clause-not_json t c refused =
    let is = c.in-Some.ensures.value ∙ ap (λ k. token_of k ∷ c.next.new.self) c.in-BeginObject.is in
    let none : c.args.depth ≡ 0 = omega arith in
    ap (converted of_json) (ap₂ value none is)

pub read_tree-returns-in-Ok-read_items-clause-ok : goal.read_tree-returns-in-Ok-read_items-clause-ok
read_tree-returns-in-Ok-read_items-clause-ok t c =
    let is = c.in-Some.ensures.value ∙ ap (λ k. token_of k ∷ c.next.new.self) c.in-BeginArray.is in
    let opened =
    ap (converted of_json)
    (ap (value c.args.depth) is ∙ value-begin_array c.args.depth c.next.new.self (omega arith))
    ∙ converted_array
    (items (value (c.args.depth - 1)) (length c.next.new.self) c.next.new.self) in
    let found = c.in-Ok-read_items.ensures.ok in
    let tree = ap (option_map list) found.2
    ∙ map_twice (λ v. items_of v.items) list c.in-Ok-read_items.items
    ∙ sym c.list_tree.ensures in
    (json_data.array found.0, opened ∙ ap (parse_map json_data.array) found.1, tree)

pub read_tree-returns-in-Err-read_items-clause-not_json :
    goal.read_tree-returns-in-Err-read_items-clause-not_json
read_tree-returns-in-Err-read_items-clause-not_json t c refused =
    let is = c.in-Some.ensures.value ∙ ap (λ k. token_of k ∷ c.next.new.self) c.in-BeginArray.is in
    let opened =
    ap (converted of_json)
    (ap (value c.args.depth) is ∙ value-begin_array c.args.depth c.next.new.self (omega arith))
    ∙ converted_array
    (items (value (c.args.depth - 1)) (length c.next.new.self) c.next.new.self) in
    opened ∙ ap (parse_map json_data.array)
    (c.in-Err-read_items.ensures.not_json (ap Err (same_fault _ _ refused)))

pub read_tree-returns-in-Ok-read_members-clause-ok :
    goal.read_tree-returns-in-Ok-read_members-clause-ok
read_tree-returns-in-Ok-read_members-clause-ok t c =
    let is = c.in-Some.ensures.value ∙ ap (λ k. token_of k ∷ c.next.new.self) c.in-BeginObject.is in
    let opened =
    ap (converted of_json)
    (ap (value c.args.depth) is ∙ value-begin_object c.args.depth c.next.new.self (omega arith))
    ∙ converted_object
    (members (value (c.args.depth - 1)) (length c.next.new.self) c.next.new.self) in
    let found = c.in-Ok-read_members.ensures.ok in
    let tree = ap (option_map object) found.2
    ∙ map_twice (λ m. members_of m.entries) object c.in-Ok-read_members.members
    ∙ sym c.object_tree.ensures in
    (json_data.object found.0, opened ∙ ap (parse_map json_data.object) found.1, tree)

pub read_tree-returns-in-Err-read_members-clause-not_json :
    goal.read_tree-returns-in-Err-read_members-clause-not_json
read_tree-returns-in-Err-read_members-clause-not_json t c refused =
    let is = c.in-Some.ensures.value ∙ ap (λ k. token_of k ∷ c.next.new.self) c.in-BeginObject.is in
    let opened =
    ap (converted of_json)
    (ap (value c.args.depth) is ∙ value-begin_object c.args.depth c.next.new.self (omega arith))
    ∙ converted_object
    (members (value (c.args.depth - 1)) (length c.next.new.self) c.next.new.self) in
    opened ∙ ap (parse_map json_data.object)
    (c.in-Err-read_members.ensures.not_json (ap Err (same_fault _ _ refused)))

pub read_tree-returns-in-EndObject-clause-not_json :
    goal.read_tree-returns-in-EndObject-clause-not_json
read_tree-returns-in-EndObject-clause-not_json t c refused =
    let none : value c.args.depth c.args.reader.now ≡ None =
    rw (value_is c.args.depth c.args.reader.now, c.in-Some.ensures.value) (grind arith) in
    ap (converted of_json) none

-- A list.

pub read_items-returns-in-Err-clause-not_json : goal.read_items-returns-in-Err-clause-not_json
read_items-returns-in-Err-clause-not_json t c refused =
    let l = c.items in
    let going = c.items-test.ensures in
    let none = c.in-Err.ensures.not_json (ap Err (same_fault _ _ refused)) in
    l.invariant.rest
    ∙ ap (parse_map (before l.invariant.done))
    (item_fault (value c.args.depth) l.invariant.turns l.reader going.0 (rw (← going.1) none))

pub read_items-items-preserved : goal.read_items-items-preserved
read_items-items-preserved t c =
    let p = value c.args.depth in
    let l = c.items in
    let n = l.invariant.turns in
    let done = l.invariant.done in
    let going = c.items-test.ensures in
    let read = c.in-Ok.ensures.ok in
    let d = read.0 in
    let r = c.read_tree.new.reader in
    let less : length r < length l.reader = rw (← going.1) c.in-Ok.ensures.shorter in
    let turn = item_turn p n l.reader r d (omega (arith, l.invariant.enough, less)) going.0
    (rw (← going.1) read.1) in
    record {
      turns = n - 1;
      enough = omega (arith, l.invariant.enough, less);
      done = done ++ d ∷ [];
      rest = l.invariant.rest ∙ ap (parse_map (before done)) turn ∙ one_more done d _;
      shorter = omega (arith, l.invariant.shorter, less);
      trees = trees_of-last done d ∙ ap₂ extended l.invariant.trees read.2
          ∙ sym c.in-Ok-with_item.ensures;
    }

pub read_items-returns-clause-ok : goal.read_items-returns-clause-ok
read_items-returns-clause-ok t c =
    let l = c.items in
    let done = l.invariant.done in
    let over = items_over
    (value c.args.depth) l.invariant.turns l.reader c.take_end_array.new.self l.invariant.enough
    c.items-test.ensures in (
      before done json_data.no_items,
      l.invariant.rest ∙ ap (parse_map (before done)) over,
      items_tree-before done ∙ ap (option_map items_of) l.invariant.trees
          ∙ map_twice (λ v. v.items) items_of l.found,
    )

-- An object.

pub read_members-members-init : goal.read_members-members-init
read_members-members-init t c =
    record {
      turns = length c.args.reader.now;
      enough = omega arith;
      done = json_data.no_members;
      rest = refl;
      shorter = omega arith;
      read = rw c.new-object.ensures tt;
    }

pub read_members-returns-in_err-name-clause-not_json :
    goal.read_members-returns-in_err-name-clause-not_json
read_members-returns-in_err-name-clause-not_json t c refused =
    let l = c.members in
    l.invariant.rest
    ∙ key_fault (value c.args.depth) l.invariant.done l.invariant.turns l.reader
    c.in_err-name.ensures.value

pub read_members-returns-in-Err-clause-not_json : goal.read_members-returns-in-Err-clause-not_json
read_members-returns-in-Err-clause-not_json t c refused =
    let l = c.members in
    let k = c.in-Some.name.now in
    let s = c.next_key.new.self in
    let named = c.in_ok-name.ensures.value
    ∙ ap (λ name. Some (option_map (λ x. x.now) name, s)) c.in-Some.is in
    l.invariant.rest
    ∙ member_fault (value c.args.depth) l.invariant.done l.invariant.turns k l.reader s named
    (c.in-Err.ensures.not_json (ap Err (same_fault _ _ refused)))

pub read_members-members-preserved : goal.read_members-members-preserved
read_members-members-preserved t c =
    let p = value c.args.depth in
    let l = c.members in
    let n = l.invariant.turns in
    let done = l.invariant.done in
    let k = c.in-Some.name.now in
    let s = c.next_key.new.self in
    let named = c.in_ok-name.ensures.value
    ∙ ap (λ name. Some (option_map (λ x. x.now) name, s)) c.in-Some.is in
    let read = c.in-Ok-read_tree.ensures.ok in
    let d = read.0 in
    let r = c.read_tree.new.reader in
    let less = read_key-shorter l.reader (Some k) s named in
    let lesser = c.in-Ok-read_tree.ensures.shorter in
    let copied : string_bytes c.in-Ok.name ≡ k = search rules in
    record {
      turns = n - 1;
      enough = omega (arith, l.invariant.enough, less, lesser);
      done = put (string_bytes c.in-Ok.name) d done;
      rest = l.invariant.rest
          ∙ member_turn p done n k l.reader s r d
          (omega (arith, l.invariant.enough, less, lesser)) named read.1
          ∙ ap (λ name. converted (λ ms. of_members ms (put name d done)) (members p (n - 1) r))
          (sym copied);
      shorter = omega (arith, l.invariant.shorter, less, lesser);
      read = rw c.in-Ok-with.ensures
          (put_read done
          (members_read l.object) d c.in-Ok.name c.in-Ok-read_tree.value l.invariant.read read.2);
    }

pub read_members-returns-in-Ok-close-clause-ok : goal.read_members-returns-in-Ok-close-clause-ok
read_members-returns-in-Ok-close-clause-ok t c =
    let l = c.members in
    let s = c.next_key.new.self in
    let closed =
    c.in_ok-name.ensures.value
    ∙ ap (λ name. Some (option_map (λ x. x.now) name, s))
    (none_left c.in_ok-name.field-0 c.in_default.not-Some) in (
      l.invariant.done,
      l.invariant.rest
          ∙ members_over
          (value c.args.depth) l.invariant.done l.invariant.turns l.reader s l.invariant.enough
          closed,
      c.in-Ok-close.ensures l.invariant.done l.invariant.read,
    )

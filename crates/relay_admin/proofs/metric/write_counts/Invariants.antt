use Rattle.std.proofs.Common.{◌≡◌, ◌++◌, take, map, string_bytes}
use Rattle.std.specs.List.{flat_map}
use Rattle.relay_admin.specs.Metric.{word_and_count, labelled_text}
use Rattle.relay_admin.proofs.metric.write_counts.Given as goal

abbrev pub invariant-loop-word : goal.invariant-loop-word
invariant-loop-word l =
    string_bytes l.text ≡ string_bytes l.initial.text ++ flat_map (λ count.
    labelled_text l.fn.name l.fn.label count)
    (map word_and_count (take l.word-index l.fn.counts))

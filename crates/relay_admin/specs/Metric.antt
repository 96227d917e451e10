-- A metric in the text format of Prometheus: a line that says what it is, one that says its kind,
-- and then a line for each value.
use Rattle.std.specs.Prelude.{ℕ, List, [], ◌++◌, map, codes, decimal}
use Rattle.std.specs.Borrow.{Bor}
use Rattle.std.specs.List.{flat_map}
use Rattle.relay_admin.specs.declared.metric.Kind.{Kind}
use Rattle.relay_admin.specs.declared.metric.Kind.TheVariants.{Counter, Gauge, Histogram}
use Rattle.relay_admin.specs.declared.metric.Metric.{Metric}
use Rattle.relay_admin.specs.declared.metric.Values.{Values}
use Rattle.relay_admin.specs.declared.metric.Values.TheVariants.{One, Micros, Labelled}
use Rattle.relay_admin.specs.declared.metric.Values.TheVariants.{Buckets}

abbrev pub kind_name : Kind → List ℕ
kind_name Counter = codes "counter"
kind_name Gauge = codes "gauge"
kind_name Histogram = codes "histogram"

-- the lines before the values
abbrev pub family_text : List ℕ → Kind → List ℕ → List ℕ
family_text name kind help =
    codes "# HELP " ++ (name
    ++ (codes " " ++ (help
    ++ (codes "\n# TYPE " ++ (name ++ (codes " " ++ (kind_name kind ++ codes "\n")))))))

-- the line of a value without a label, with its exponent
abbrev pub value_text : List ℕ → ℕ → List ℕ → List ℕ
value_text name value exponent = name ++ (codes " " ++ (decimal value ++ (exponent ++ codes "\n")))

-- the line of a value for a word of a label
abbrev pub labelled_text : List ℕ → List ℕ → List ℕ × ℕ → List ℕ
labelled_text name label (word, count) =
    name ++ (codes "{" ++ (label ++ (codes "=\"" ++ (word ++ (codes "\"} "
    ++ (decimal count ++ codes "\n"))))))

-- a gauge with one value
abbrev pub gauge : List ℕ → List ℕ → ℕ → List ℕ
gauge name help value = family_text name Gauge help ++ value_text name value []

-- a gauge with one value, in millionths
abbrev pub gauge_of_micros : List ℕ → List ℕ → ℕ → List ℕ
gauge_of_micros name help value = family_text name Gauge help ++ value_text name value (codes "e-6")

-- a counter with one value, in millionths
abbrev pub counter_of_micros : List ℕ → List ℕ → ℕ → List ℕ
counter_of_micros name help value =
    family_text name Counter help ++ value_text name value (codes "e-6")

-- a counter with one value
abbrev pub counter : List ℕ → List ℕ → ℕ → List ℕ
counter name help value = family_text name Counter help ++ value_text name value []

-- a counter with a value for each of these words of a label
abbrev pub labelled_counter : List ℕ → List ℕ → List ℕ → List (List ℕ × ℕ) → List ℕ
labelled_counter name help label counts =
    family_text name Counter help ++ flat_map (λ count. labelled_text name label count) counts

-- the lines of a histogram: those of its buckets, by their upper bounds, and those of the sum of
-- the values, in millionths, and of their number
abbrev pub buckets_text : List ℕ → List (List ℕ × ℕ) → ℕ → ℕ → List ℕ
buckets_text name counts micros all =
    (flat_map (λ count. labelled_text (name ++ codes "_bucket") (codes "le") count) counts
    ++ value_text (name ++ codes "_sum") micros (codes "e-6"))
    ++ value_text (name ++ codes "_count") all []

-- a histogram
abbrev pub histogram : List ℕ → List ℕ → List (List ℕ × ℕ) → ℕ → ℕ → List ℕ
histogram name help counts micros all =
    family_text name Histogram help ++ buckets_text name counts micros all

-- a word and its value, as the code has them
abbrev pub word_and_count : Bor (List ℕ) × ℕ → List ℕ × ℕ
word_and_count pair = (pair.0.now, pair.1)

-- the lines of values, as the code has them
abbrev pub values_text : List ℕ → Values → List ℕ
values_text name (One value) = value_text name value []
values_text name (Micros value) = value_text name value (codes "e-6")
values_text name (Labelled label counts) =
    flat_map (λ count. labelled_text name label.now count) (map word_and_count counts.now)
values_text name (Buckets counts micros all) =
    buckets_text name (map word_and_count counts.now) micros all

-- a metric, as the code has it
abbrev pub metric_text : Metric → List ℕ
metric_text m = family_text m.name.now m.kind m.help.now ++ values_text m.name.now m.values

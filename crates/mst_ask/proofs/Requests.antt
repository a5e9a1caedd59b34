-- What words of the program ask is no line of a script, and leaves the planner as it was.
use Rattle.std.proofs.Common.{◌≡◌, ℕ, Bool, true, false, cond, List, [], ◌∷◌, Option, Some, None, Result, Ok, Err, nat_eq, refl, sym, ap, subst, codes}
use Rattle.std.specs.Prelude.{IfOk}
use Rattle.std.specs.Option.{option_map, option_map_or}
use Rattle.std.specs.Str.{bytes_eq}
use Rattle.mst_lang.specs.Arguments.{number_value, tree, vid}
use Rattle.mst_lang.specs.Reading.{reading_as}
use Rattle.mst_lang.specs.Words.{words}
use Rattle.mst_lang.specs.declared.line.Fault.{Fault}
use Rattle.mst_lang.specs.declared.line.Fault.TheVariants.{E02}
use Rattle.mst_lang.specs.declared.line.Line.{Line}
use Rattle.mst_lang.specs.declared.line.Version.{Version}
use Rattle.mst_questions.specs.sweep.SweepParts.{PartOf}
use Rattle.mst_questions.specs.Ask.{dot_question, drawn_of, keeps, pairs_question, part_asked, question_of, sweep_question, vlan_drawn_of, vlan_picture_question}
use Rattle.mst_questions.specs.Asked.{asked_of, part_value}
use Rattle.mst_questions.specs.declared.asked.Asked.{Asked}
use Rattle.mst_questions.specs.declared.asked.Question.{Question}
use Rattle.mst_questions.specs.declared.asked.Question.TheVariants.{Pairs, Sweep}
use Rattle.mst_ask.specs.Requests.{Stays, asked_by, asked_in, counted, dot_of, dot_words, explain_words, is_readable, path_of, path_words, request_of, said_of, summary_words, sweep_of, sweep_words, undo_words, verify_words}
use Rattle.mst_tracing.specs.Asked.{path_question}
use Rattle.mst_tracing.specs.declared.asked.PathQuestion.{PathQuestion}
use Rattle.mst_verifying.specs.declared.question.PolicyQuestion.TheVariants.{Risks}
use Rattle.mst_ask.specs.declared.request.Request.{Request}
use Rattle.mst_ask.specs.declared.request.Request.TheVariants.{Script, Word, Undo, Policy, Path}

-- what a word of the program, or `undo`, asks: no line of a script, and what leaves the planner as it was
abbrev OfWord : Result Request Fault → Type 0
OfWord (Err f) = Unit {0}
OfWord (Ok (Script line)) = ⊥
OfWord (Ok (Word question)) = keeps question ≡ true
OfWord (Ok (Undo count)) = Unit {0}
OfWord (Ok (Policy question)) = Unit {0}
OfWord (Ok (Path question)) = Unit {0}

abbrev AsksOfWord : Option (Result Request Fault) → Type 0
AsksOfWord None = Unit {0}
AsksOfWord (Some request) = OfWord request

explains : (asked : Result Asked Fault) → keeps (question_of asked) ≡ true
explains (Err f) = refl
explains (Ok asked) = refl

of_explain : (ws : List (List ℕ)) → OfWord (explain_words ws)
of_explain [] = tt
of_explain (a ∷ []) = tt
of_explain (a ∷ b ∷ []) = explains (asked_of a b None)
of_explain (a ∷ b ∷ c ∷ []) = explains (asked_of a b (Some c))
of_explain (a ∷ b ∷ c ∷ d ∷ ws) = tt

of_summary : (ws : List (List ℕ)) → OfWord (summary_words ws)
of_summary [] = refl
of_summary (a ∷ ws) = tt

abbrev KeepsWhere : Option Question → Type 0
KeepsWhere None = Unit {0}
KeepsWhere (Some question) = keeps question ≡ true

of_part : (asks : PartOf → Question) → ((part : PartOf) → keeps (asks part) ≡ true) → (part : Option PartOf) → KeepsWhere (option_map asks part)
of_part asks kept None = tt
of_part asks kept (Some part) = kept part

of_pairs : (behind : Option (List ℕ)) → KeepsWhere (pairs_question behind)
of_pairs None = refl
of_pairs (Some word) = of_part Pairs (λ part. refl) (part_value word)

of_parts : (word : List ℕ) (behind : Option (List ℕ)) → KeepsWhere (part_asked word behind)
of_parts word None = of_part Sweep (λ part. refl) (part_value word)
of_parts word (Some other) = tt

sweeps : (word behind : Option (List ℕ)) → KeepsWhere (sweep_question word behind)
sweeps None behind = refl
sweeps (Some word) behind =
    elim (bytes_eq word (codes "pairs")) as (λ b. KeepsWhere (cond b (pairs_question behind) (part_asked word behind))) [ true ↦ of_pairs behind | false ↦ of_parts word behind ]

of_question : (question : Option Question) → KeepsWhere question → OfWord (sweep_of question)
of_question None kept = tt
of_question (Some question) kept = kept

of_sweep : (ws : List (List ℕ)) → OfWord (sweep_words ws)
of_sweep [] = of_question (sweep_question None None) (sweeps None None)
of_sweep (a ∷ []) =
    elim (bytes_eq a (codes "risks")) as (λ b. OfWord (cond b (Ok (Policy Risks)) (sweep_of (sweep_question (Some a) None)))) [ true ↦ tt | false ↦ of_question (sweep_question (Some a) None) (sweeps (Some a) None) ]
of_sweep (a ∷ b ∷ []) = of_question (sweep_question (Some a) (Some b)) (sweeps (Some a) (Some b))
of_sweep (a ∷ b ∷ c ∷ ws) = tt

draws : (number : Result ℕ Fault) → keeps (drawn_of number) ≡ true
draws (Err f) = refl
draws (Ok n) = refl

draws_vlan : (number : Result ℕ Fault) → keeps (vlan_drawn_of number) ≡ true
draws_vlan (Err f) = refl
draws_vlan (Ok n) = refl

pictures : (word : List ℕ) (behind : Option (List ℕ)) → KeepsWhere (dot_question word behind)
pictures word None = draws (tree word)
pictures word (Some behind) = elim (bytes_eq word (codes "vlan")) as (λ b. KeepsWhere (cond b (Some (vlan_picture_question behind)) None)) [ true ↦ draws_vlan (vid behind) | false ↦ tt ]

of_drawn : (question : Option Question) → KeepsWhere question → OfWord (dot_of question)
of_drawn None kept = tt
of_drawn (Some question) kept = kept

of_dot : (ws : List (List ℕ)) → OfWord (dot_words ws)
of_dot [] = tt
of_dot (a ∷ []) = of_drawn (dot_question a None) (pictures a None)
of_dot (a ∷ b ∷ []) = of_drawn (dot_question a (Some b)) (pictures a (Some b))
of_dot (a ∷ b ∷ c ∷ ws) = tt

of_counted : (n : Option ℕ) → OfWord (counted n)
of_counted None = tt
of_counted (Some n) = elim (nat_eq n 0) as (λ b. OfWord (cond b (Err E02) (Ok (Undo n)))) [ true ↦ tt | false ↦ tt ]

of_undo : (ws : List (List ℕ)) → OfWord (undo_words ws)
of_undo [] = tt
of_undo (a ∷ []) = of_counted (number_value a)
of_undo (a ∷ b ∷ ws) = tt

of_verify : (ws : List (List ℕ)) → OfWord (verify_words ws)
of_verify [] = tt
of_verify (a ∷ ws) = tt

of_traced : (question : Option PathQuestion) → OfWord (path_of question)
of_traced None = tt
of_traced (Some question) = tt

of_path : (ws : List (List ℕ)) → OfWord (path_words ws)
of_path [] = tt
of_path (a ∷ []) = tt
of_path (a ∷ b ∷ []) = tt
of_path (a ∷ b ∷ c ∷ []) = of_traced (path_question a b c None)
of_path (a ∷ b ∷ c ∷ d ∷ []) = of_traced (path_question a b c (Some d))
of_path (a ∷ b ∷ c ∷ d ∷ e ∷ ws) = tt

-- which of two it is
one_of : (b : Bool) (x y : Option (Result Request Fault)) → AsksOfWord x → AsksOfWord y → AsksOfWord (cond b x y)
one_of true x y p q = p
one_of false x y p q = q

of_asked : (ws : List (List ℕ)) → AsksOfWord (asked_by ws)
of_asked [] = tt
of_asked (word ∷ behind) =
    one_of (bytes_eq word (codes "explain")) (Some (explain_words behind)) _ (of_explain behind)
    (one_of (bytes_eq word (codes "summary")) (Some (summary_words behind)) _ (of_summary behind)
    (one_of (bytes_eq word (codes "sweep")) (Some (sweep_words behind)) _ (of_sweep behind)
    (one_of (bytes_eq word (codes "dot")) (Some (dot_words behind)) _ (of_dot behind)
    (one_of (bytes_eq word (codes "undo")) (Some (undo_words behind)) _ (of_undo behind)
    (one_of (bytes_eq word (codes "verify")) (Some (verify_words behind)) _ (of_verify behind)
    (one_of (bytes_eq word (codes "path")) (Some (path_words behind)) None (of_path behind) tt))))))

of_line : (line : List ℕ) → AsksOfWord (asked_in line)
of_line line = one_of (is_readable line) (asked_by (words line)) None (of_asked (words line)) tt

no_script : (request : Result Request Fault) (line : Line) → OfWord request → request ≡ Ok (Script line) → ⊥
no_script request line none is = subst OfWord is none

-- so what asks a line of a script says it
pub script_said : (version : Version) (line : List ℕ) (said : Line) → request_of version line ≡ Ok (Script said) → reading_as version line ≡ Ok said
script_said version line said is = by (asked_in line) (of_line line) (reading_as version line) is
  where
    inner : Result Request Fault → Line → Line
    inner (Err f) other = other
    inner (Ok (Script line)) other = line
    inner (Ok (Word question)) other = other
    inner (Ok (Undo count)) other = other
    inner (Ok (Policy question)) other = other
    inner (Ok (Path question)) other = other

    by : (asked : Option (Result Request Fault)) → AsksOfWord asked → (r : Result Line Fault) → option_map_or (λ request. request) asked (said_of r) ≡ Ok (Script said) → r ≡ Ok said
    by (Some request) none r is = absurd (no_script request said none is)
    by None none (Ok l) is = ap Ok (ap (λ request. inner request l) is)
    by None none (Err f) is = absurd (cc)

-- and what is asked by a word leaves the planner as it was
stays : (request : Result Request Fault) → OfWord request → IfOk request Stays
stays (Err f) word = tt
stays (Ok (Script line)) word = absurd word
stays (Ok (Word question)) word = word
stays (Ok (Undo count)) word = tt
stays (Ok (Policy question)) word = tt
stays (Ok (Path question)) word = tt

pub word_stays : (line : List ℕ) (request : Result Request Fault) → Some request ≡ asked_in line → IfOk request Stays
word_stays line request is = stays request (subst AsksOfWord (sym is) (of_line line))

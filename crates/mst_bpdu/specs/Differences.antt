-- Where a BPDU differs from a plan, in the order in which fields are compared.
use Rattle.std.specs.Prelude.{ℕ, Bool, true, false, not, ◌==◌, List, [], ◌∷◌, ◌++◌, map, filter, find, nat_eq, if◌then◌else◌}
use Rattle.std.specs.List.{list_any}
use Rattle.std.specs.Option.{option_map_or}
use Rattle.std.specs.Cmp.Lexicographic.{pointwise}
use Rattle.mst_ids.specs.Identifiers.{system_id_of}
use Rattle.mst_bpdu.specs.Flags.{code_of_role}
use Rattle.mst_bpdu.specs.declared.bpdu.Bpdu.{Bpdu}
use Rattle.mst_bpdu.specs.declared.bpdu.Bpdu.TheVariants.{Rst, Mst}
use Rattle.mst_bpdu.specs.declared.bpdu.RstBpdu.{RstBpdu}
use Rattle.mst_bpdu.specs.declared.bpdu.MstBpdu.{MstBpdu}
use Rattle.mst_bpdu.specs.declared.bpdu.ConfigurationId.{ConfigurationId}
use Rattle.mst_bpdu.specs.declared.bpdu.MstiMessage.{MstiMessage}
use Rattle.mst_bpdu.specs.declared.planned.Planned.{Planned}
use Rattle.mst_bpdu.specs.declared.planned.PlannedCist.{PlannedCist}
use Rattle.mst_bpdu.specs.declared.planned.PlannedMsti.{PlannedMsti}
use Rattle.mst_bpdu.specs.declared.difference.Difference.{Difference}
use Rattle.mst_bpdu.specs.declared.difference.Value.{Value}
use Rattle.mst_bpdu.specs.declared.difference.Value.TheVariants as values
use Rattle.mst_bpdu.specs.declared.difference.Field.{Field}
use Rattle.mst_bpdu.specs.declared.difference.Field.TheVariants.{Role, Learning, Forwarding, Root, ExternalCost, RegionalRoot, InternalCost, Bridge, Port, Selector, Name, Revision, Digest, BridgePriority, PortPriority, Unplanned, Repeated, Missing}
use Rattle.mst_bpdu.specs.declared.fields.Compared.{Compared}

-- ---- values
abbrev pub are_equal : Value → Value → Bool
are_equal values.Nil values.Nil = true
are_equal (values.Number a) (values.Number b) = a == b
are_equal (values.Bridge a) (values.Bridge b) = a == b
are_equal (values.Port a) (values.Port b) = a == b
are_equal (values.Name a) (values.Name b) = pointwise nat_eq a b
are_equal (values.Digest a) (values.Digest b) = pointwise nat_eq a b
are_equal _ _ = false

-- a field with its value by the plan and its value in the capture
abbrev pub compared : Field → Value → Value → Compared
compared field plan capture = record { field = field; plan = plan; capture = capture }

abbrev pub numbers : Field → ℕ → ℕ → Compared
numbers field plan capture = compared field (values.Number plan) (values.Number capture)

abbrev pub flags : Field → Bool → Bool → Compared
flags field plan capture = numbers field (if plan then 1 else 0) (if capture then 1 else 0)

abbrev pub bridges : Field → ℕ → ℕ → Compared
bridges field plan capture = compared field (values.Bridge plan) (values.Bridge capture)

abbrev pub ports : Field → ℕ → ℕ → Compared
ports field plan capture = compared field (values.Port plan) (values.Port capture)

-- ---- the fields of each part, in their order
-- an RST BPDU
unfoldable pub rst_fields : PlannedCist → RstBpdu → List Compared
rst_fields plan bpdu =
    numbers Role (code_of_role plan.role) (code_of_role bpdu.flags.role) ∷
    flags Learning plan.forwards bpdu.flags.learning ∷
    flags Forwarding plan.forwards bpdu.flags.forwarding ∷
    bridges Root plan.root bpdu.root ∷
    numbers ExternalCost plan.external_cost bpdu.root_path_cost ∷
    bridges Bridge plan.bridge bpdu.bridge ∷
    ports Port plan.port bpdu.port ∷
    []

-- an MST Configuration Identifier
unfoldable pub configuration_fields : ConfigurationId → ConfigurationId → List Compared
configuration_fields plan capture =
    numbers Selector plan.selector capture.selector ∷
    compared Name (values.Name plan.name) (values.Name capture.name) ∷
    numbers Revision plan.revision capture.revision ∷
    compared Digest (values.Digest plan.digest) (values.Digest capture.digest) ∷
    []

-- an MST BPDU before its messages
unfoldable pub mst_fields : Planned → MstBpdu → List Compared
mst_fields plan bpdu =
    numbers Role (code_of_role plan.cist.role) (code_of_role bpdu.flags.role) ∷
    flags Learning plan.cist.forwards bpdu.flags.learning ∷
    flags Forwarding plan.cist.forwards bpdu.flags.forwarding ∷
    bridges Root plan.cist.root bpdu.root ∷
    numbers ExternalCost plan.cist.external_cost bpdu.external_cost ∷
    bridges RegionalRoot plan.cist.regional_root bpdu.regional_root ∷
    ports Port plan.cist.port bpdu.port ∷
    configuration_fields plan.configuration bpdu.configuration ++
    numbers InternalCost plan.cist.internal_cost bpdu.internal_cost ∷
    bridges Bridge plan.cist.bridge bpdu.bridge ∷
    []

-- an MSTI message
unfoldable pub msti_fields : PlannedMsti → MstiMessage → List Compared
msti_fields plan message =
    numbers Role (code_of_role plan.role) (code_of_role message.flags.role) ∷
    flags Learning plan.forwards message.flags.learning ∷
    flags Forwarding plan.forwards message.flags.forwarding ∷
    bridges RegionalRoot plan.regional_root message.regional_root ∷
    numbers InternalCost plan.internal_cost message.internal_cost ∷
    numbers BridgePriority plan.bridge_priority message.bridge_priority ∷
    numbers PortPriority plan.port_priority message.port_priority ∷
    []

-- those of a tree's fields that differ
abbrev pub difference : ℕ → Compared → Difference
difference tree of = record { tree = tree; field = of.field; plan = of.plan; capture = of.capture }

abbrev pub differing : ℕ → List Compared → List Difference
differing tree fields = map (difference tree) (filter (λ of. not (are_equal of.plan of.capture)) fields)

-- ---- the MSTIs
-- the tree of a message is the system ID extension of its Regional Root ID
abbrev pub tree_of : MstiMessage → ℕ
tree_of message = system_id_of message.regional_root

abbrev pub has_message : ℕ → List MstiMessage → Bool
has_message tree messages = list_any (λ message. tree_of message == tree) messages

-- a tree differs as a whole
abbrev pub without_values : Field → ℕ → Difference
without_values field tree = record { tree = tree; field = field; plan = values.Nil; capture = values.Nil }

-- of a message: its tree is none of the sender's, or has had a message, or its fields are compared
unfoldable pub of_message : List PlannedMsti → List MstiMessage → MstiMessage → List Difference
of_message mstis earlier message =
    option_map_or
    (λ msti. if has_message (tree_of message) earlier then without_values Repeated (tree_of message) ∷ [] else differing (tree_of message) (msti_fields msti message))
    (find (λ msti. msti.tree == tree_of message) mstis)
    (without_values Unplanned (tree_of message) ∷ [])

-- of the messages that follow earlier ones
unfoldable pub of_messages : List PlannedMsti → List MstiMessage → List MstiMessage → List Difference
of_messages mstis earlier [] = []
of_messages mstis earlier (message ∷ messages) = of_message mstis earlier message ++ of_messages mstis (earlier ++ message ∷ []) messages

-- the trees of the sender without a message
abbrev pub missing : List PlannedMsti → List MstiMessage → List Difference
missing mstis messages = map (λ msti. without_values Missing msti.tree) (filter (λ msti. not (has_message msti.tree messages)) mstis)

-- ---- a BPDU
abbrev pub differences_of : Planned → Bpdu → List Difference
differences_of plan (Rst bpdu) = differing 0 (rst_fields plan.cist bpdu)
differences_of plan (Mst bpdu) = differing 0 (mst_fields plan bpdu) ++ of_messages plan.mstis [] bpdu.messages ++ missing plan.mstis bpdu.messages

-- Bridge and Port Identifiers as numbers.
use Rattle.std.specs.Prelude.{ℕ, ◌+◌, ◌*◌, ◌/◌, ◌%◌, ◌^◌}

-- 4 bits of priority, 12 bits of system ID extension, 48 bits of MAC address
abbrev pub bridge_id : ℕ → ℕ → ℕ → ℕ
bridge_id priority tree mac = (priority * 4096 + tree) * 2 ^ 48 + mac

-- 4 bits of priority, 12 bits of port number
abbrev pub port_id : ℕ → ℕ → ℕ
port_id priority number = priority * 4096 + number

-- the parts of a Bridge Identifier: its priority, its system ID extension, which is the number of a tree, and
-- its MAC address
abbrev pub priority_of : ℕ → ℕ
priority_of id = id / 2 ^ 60

abbrev pub system_id_of : ℕ → ℕ
system_id_of id = id / 2 ^ 48 % 4096

abbrev pub mac_of : ℕ → ℕ
mac_of id = id % 2 ^ 48

-- the parts of a Port Identifier: its priority and its port number
abbrev pub port_priority_of : ℕ → ℕ
port_priority_of id = id / 4096

abbrev pub port_number_of : ℕ → ℕ
port_number_of id = id % 4096

use Rattle.std.proofs.Common.{sym, ◌∙◌}
use Rattle.mst_sweep.proofs.Untouched.{same_roles}
use Rattle.mst_sweep.proofs.touched.has_other.Goals as goal

pub returns : goal.returns
returns c e = sym c.port_role-old_role.ensures ∙ same_roles c.port_role-old_role.result c.port_role-new_role.result (sym c.differs.ensures ∙ e) ∙ c.port_role-new_role.ensures

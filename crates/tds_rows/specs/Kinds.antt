-- What a type's byte says, as the layout names it.
use Rattle.tds_wire.specs.declared.types.TypeInfo.{TypeInfo}
use Rattle.tds_wire.specs.declared.types.TypeInfo.TheVariants as info
use Rattle.tds_rows.specs.declared.types.Kind.{Kind}
use Rattle.tds_rows.specs.declared.types.Kind.TheVariants as kind

abbrev pub info_of : Kind → TypeInfo
info_of (kind.Info n s) = info.Info n s
info_of (kind.Limited collated) = info.Limited collated
info_of kind.Xml = info.Xml
info_of kind.Made = info.Made
info_of kind.Unknown = info.Unknown

-- Each call keeps account of spans and of lines; headers are set one after another; a refused start leaves the spans;
-- bytes of an id give it back; the settings of a text are those of its last lines; attributes that are handed in leave
-- those that were gathered.
pub mod Conserving
pub mod Refusing
pub mod SettingHeaders
pub mod Hearing
pub mod IdBytes
pub mod CallFlows
pub mod HeaderTexts
pub mod SettingMaps
pub mod LastLines
pub mod Opening
pub mod Needing
pub mod InPlace
pub mod HostAttributes
